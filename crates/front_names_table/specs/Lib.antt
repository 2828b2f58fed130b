-- The name table: the sorts of names, arrays of source places, lengths, declaration rows and what else a name stands for, viewed as a scope's entries.
pub mod Sorts
pub mod View
pub mod Held
