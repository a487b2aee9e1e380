-- What a save is given to follow stands for, and the stages of its stops.
pub mod View
pub mod Stages
