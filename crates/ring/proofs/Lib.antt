-- Laws of the ring for the layers above.
pub mod SizeLaws
pub mod TurnLaws
pub mod RecordLaws
pub mod SlotLaws
pub mod PageLaws
pub mod ReadLaws
pub mod RingLaws
pub mod FoundLaws
pub mod Exactly
pub mod NewestLaws
pub mod FirstLaws
pub mod StoreLaws
pub mod ViewLaws
mod StepLaws
mod PassLaws
