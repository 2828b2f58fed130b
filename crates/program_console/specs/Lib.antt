-- What was read from standard input.
pub mod Input
pub mod InputLaws
