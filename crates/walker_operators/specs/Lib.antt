-- The operators by their numbers.
pub mod Comparison
