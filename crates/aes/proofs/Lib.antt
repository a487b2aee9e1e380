-- Laws that several proofs cite.
pub mod Steps
pub mod Whole
pub mod Columns
pub mod Bytes
