-- Laws of the list of stops.
pub mod Laws
