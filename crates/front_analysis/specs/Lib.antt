-- The front end's code: what it answers, and laws on its arrays.
pub mod Analysed
pub mod Arrays
pub mod Named
pub mod Parsed
pub mod Tokened
