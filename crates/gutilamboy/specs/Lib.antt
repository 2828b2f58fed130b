-- The exported calls over words.
pub mod Calls
pub mod CallLaws
