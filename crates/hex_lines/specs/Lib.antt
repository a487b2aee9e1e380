-- Lines of Intel HEX.
pub mod Format
pub mod Line
pub mod Inner
