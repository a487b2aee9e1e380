-- Laws of the definitions in specs/.
pub mod Words
pub mod Product
pub mod Hashing
