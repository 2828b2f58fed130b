-- What the readers of expressions promise.
pub mod Reads
pub mod Parts
