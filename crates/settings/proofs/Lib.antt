-- Laws of settings.
pub mod KindLaws
pub mod Laws
pub mod CallLaws
pub mod OlderReader
pub mod Theorems
