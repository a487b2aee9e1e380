-- Counter mode and GCM of NIST SP 800-38D, "Galois/Counter Mode (GCM)", over its hash in ghash/specs, and what the calls of this crate answer, first as document 01 has it, then by the standards.
pub mod Gcm
pub mod Calls
pub mod Standard
