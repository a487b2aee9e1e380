-- Laws of the definitions in specs/, for this crate and those above it.
pub mod Counter
pub mod Blocks
pub mod Laws
pub mod Bytes
pub mod Keys
pub mod Checks
pub mod Outcomes
pub mod Theorems
