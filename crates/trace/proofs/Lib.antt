-- The theorem about traces, and laws of the definitions that the code's proofs use.
pub mod Laws
pub mod Starting
pub mod WithoutSession
pub mod Stores
pub mod Moves
pub mod Stepping
pub mod Outcomes
pub mod Ends
pub mod Ruled
