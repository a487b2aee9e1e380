-- The stops of documents 01 and 02.
pub mod Stops
pub mod View
