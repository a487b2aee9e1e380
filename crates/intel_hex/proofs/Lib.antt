-- Laws and theorems of Intel HEX.
pub mod ExportLaws
pub mod TextLaws
pub mod ImportLaws
pub mod Named
pub mod RoundTrip
