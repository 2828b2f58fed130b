-- The walker's exported call over words.
pub mod WalkCall
