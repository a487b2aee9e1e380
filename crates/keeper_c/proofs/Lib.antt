-- Laws of the calls.
mod AdvanceLaws
mod Either
mod FromLaws
pub mod Fitting
pub mod InPlace
mod LookLaws
mod SealLaws
mod StartLaws
