-- The bench values hold of the definitions.
pub mod Proved
