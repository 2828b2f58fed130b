-- The explanation of a source, and its laws.
pub mod Explain
pub mod ExplainLaws
