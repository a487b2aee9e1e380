-- Laws of the stops of a save and of what it answers, and of the view.
pub mod Laws
pub mod ViewLaws
