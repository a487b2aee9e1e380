-- Worked examples, as theorems.
pub mod Shared
pub mod Case4
pub mod Case16
