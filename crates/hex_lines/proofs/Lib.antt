-- Laws of lines of Intel HEX.
pub mod Sums
pub mod WriteLaws
pub mod ReadLaws
