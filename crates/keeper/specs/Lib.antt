-- What the code's values stand for.
pub mod View
pub mod Stages
