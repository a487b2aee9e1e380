-- What the calls answer and leave, where the definitions of GHASH and of equal strings do not say it alone.
pub mod Calls
