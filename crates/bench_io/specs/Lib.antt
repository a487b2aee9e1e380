-- What the bench's programs read.
pub mod Read
