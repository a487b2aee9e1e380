-- Laws of the check, for its functions and the layers above.
pub mod Programmed
pub mod Saved
pub mod Accepted
pub mod Theorems
pub mod Stages
