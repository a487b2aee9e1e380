-- Lines of hexadecimal fields.
pub mod Lines
