-- Laws on buffers that are zeroed or copied word by word.
pub mod Buffers
