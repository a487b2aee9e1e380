-- Laws of readings.
pub mod ReadLaws
