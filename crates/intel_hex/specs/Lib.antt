-- Intel HEX.
pub mod Export
pub mod Import
pub mod Names
pub mod Inner
