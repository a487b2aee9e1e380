-- What the program's argument says.
pub mod Argument
