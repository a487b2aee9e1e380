-- What is accepted, and that it is exactly what first saves leave.
pub mod Factory
pub mod Exactly
