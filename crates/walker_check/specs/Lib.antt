-- A table's check: what it answers, and what the code goes through.
pub mod TableCheck
pub mod TableCheckLaws
