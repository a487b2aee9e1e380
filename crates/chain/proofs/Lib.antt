-- Laws of chains of dumps.
pub mod Pigeons
pub mod Orders
pub mod CallLaws
pub mod Exactly
