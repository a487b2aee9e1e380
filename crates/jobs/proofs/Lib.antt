-- Laws of the views and of the conditions of advances.
pub mod ViewLaws
pub mod AdvanceLaws
