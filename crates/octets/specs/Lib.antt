-- Byte strings, words, lists given by a rule and searches.
pub mod Limits
pub mod Octets
pub mod Word
pub mod Table
pub mod Search
