-- What a program means: the working of the operators, and the source's run.
pub mod Operators
pub mod SourceRun
pub mod OperatorCases
pub mod Traps
pub mod TableRun
pub mod TableCases
pub mod TableHeights
pub mod TableCounts
