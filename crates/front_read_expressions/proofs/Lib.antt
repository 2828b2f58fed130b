-- What the readers' proofs share.
pub mod Passed
