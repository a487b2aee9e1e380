-- Laws of a half opened and sealed anew.
pub mod Laws
