-- What a specification deserves, and what it declares.
pub mod Judge
