-- The definitions of NIST SP 800-38D, "Galois/Counter Mode (GCM)", that are about its hash, and how the code keeps a block.
pub mod Ghash
pub mod Input
pub mod Steps
