-- The front end as a whole: from source bytes to a resolved program, or the refusal.
pub mod Symbols
pub mod IsX
pub mod Deserved
pub mod Front
pub mod VerdictExact
pub mod Count
