-- What the recognizer promises, and the laws behind it.
pub mod Marks
pub mod Pushdown
pub mod Stack
pub mod Follows
pub mod Levels
pub mod Recognized
