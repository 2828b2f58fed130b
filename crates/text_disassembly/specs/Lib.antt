-- An instruction as a line of text, and what can be read back from it.
pub mod Disassembly
pub mod LineReading
pub mod ImageLines
pub mod HalfwordsBack
pub mod ImageLineLaws
