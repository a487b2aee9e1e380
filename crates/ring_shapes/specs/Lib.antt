-- Every shape of a readable ring of a small size.
pub mod Shapes
pub mod Each
pub mod Inner
