-- The state of a ring in words.
pub mod Text
pub mod Line
