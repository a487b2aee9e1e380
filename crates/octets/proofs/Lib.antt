-- Laws of the definitions in specs/, for this crate and those above it.
pub mod Laws
pub mod Bytes
pub mod Numbers
pub mod Tables
pub mod Lent
pub mod Search
pub mod Tried
