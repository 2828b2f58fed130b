-- Writing instructions to a buffer: what the writing functions promise, and its laws.
pub mod Write
pub mod Single
