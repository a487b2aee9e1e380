-- The words of a bench trace.
pub mod Words
pub mod View
