-- The words of a program's data by name.
pub mod Values
pub mod ValueLaws
