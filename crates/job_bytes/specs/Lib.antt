-- Jobs and sessions as bytes.
pub mod Bytes
