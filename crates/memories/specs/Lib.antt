-- The stops that calls have in common.
pub mod Stages
pub mod Read
