-- Laws of the view and of power-up's conditions.
pub mod ViewLaws
pub mod ResumeLaws
pub mod PowerUpLaws
