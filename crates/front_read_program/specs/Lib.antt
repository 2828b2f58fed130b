-- What the reader of programs promises, and the laws behind it.
pub mod Answer
pub mod SpecificationReaders
pub mod Specifications
pub mod Ends
