-- The table of the names that a source declares.
pub mod Names
pub mod Lines
pub mod Walk
pub mod NamesSoFar
pub mod Tokens
pub mod NamesRoom
