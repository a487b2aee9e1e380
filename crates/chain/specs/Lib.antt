-- Which dump came before which.
pub mod Chain
pub mod Exactly
