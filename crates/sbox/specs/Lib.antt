-- The field of FIPS 197, and its SBOX.
pub mod Field
