-- An operator's number.
pub mod OperatorNumbers
