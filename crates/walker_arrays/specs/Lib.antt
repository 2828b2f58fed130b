-- What a walk works with.
pub mod Stacks
pub mod AccessEntries
pub mod AccessEntryLaws
pub mod WorkingArrays
