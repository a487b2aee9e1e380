-- KEYEXPANSION of FIPS 197.
pub mod Key
