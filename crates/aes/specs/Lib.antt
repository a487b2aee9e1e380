-- The cipher of FIPS 197, "Advanced Encryption Standard", over its field in sbox/specs and its key expansion in aes_key/specs.
pub mod State
pub mod Word
pub mod Cipher
