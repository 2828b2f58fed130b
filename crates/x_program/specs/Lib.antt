-- Resolved programs: the tree with offsets in it, its depth, the tree of the syntax table, and the table's layout and rows.
pub mod Tree
pub mod ProgramDepth
pub mod Core
pub mod Resolved
pub mod Layout
pub mod Rows
pub mod Table
pub mod TableLaws
pub mod ValidTable
pub mod FittingRows
pub mod Sound
pub mod TableReadBack
pub mod SoundTree
