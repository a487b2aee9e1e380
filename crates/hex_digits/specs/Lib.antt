-- Bytes in hexadecimal.
pub mod Digits
