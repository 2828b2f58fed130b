-- The spelling of tokens: their kinds, classes of bytes, reserved words and their lookup, and laws of each.
pub mod Kinds
pub mod Characters
pub mod Words
pub mod WordLookup
pub mod Runs
pub mod ReservedWordLaws
