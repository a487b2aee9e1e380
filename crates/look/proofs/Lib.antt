-- Laws of the views and of look's conditions.
pub mod ViewLaws
pub mod LookLaws
