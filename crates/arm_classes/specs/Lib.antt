-- Halfwords outside the list: the classes and what is undefined, and their laws.
pub mod Classes
pub mod ClassRows
pub mod Told
pub mod ClassCases
