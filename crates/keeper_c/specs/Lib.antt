-- The calls for C and Rust programs.
pub mod Calls
pub mod Inner
