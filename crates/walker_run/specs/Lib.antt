-- The walker: what it hands back, and its rows.
pub mod Handed
pub mod Opening
pub mod Walking
