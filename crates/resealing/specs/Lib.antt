-- A half opened and sealed anew: its stops, and what that leaves.
pub mod Stages
pub mod Outcome
