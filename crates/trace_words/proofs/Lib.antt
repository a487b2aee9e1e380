-- Laws of the words of a bench trace.
pub mod Laws
