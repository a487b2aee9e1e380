-- Laws that several proofs cite.
pub mod Schedule
pub mod Lengths
pub mod Bytes
