-- Laws of jobs and sessions as bytes.
pub mod BytesLaws
pub mod ReadBack
