-- Recorded bench traces.
pub mod Trace
pub mod View
pub mod Rule
