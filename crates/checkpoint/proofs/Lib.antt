-- Laws of the definitions in specs/, for the layers above.
pub mod FramLaws
pub mod SealedLaws
pub mod Offsets
pub mod HalfLaws
pub mod StoredLaws
pub mod Sealing
