-- Document 01's bench values.
pub mod Values
