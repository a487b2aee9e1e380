-- Laws of the rings of a size.
pub mod PlaceLaws
pub mod RingLaws
pub mod CallLaws
pub mod Each
