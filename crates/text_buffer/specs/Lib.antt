-- Texts in a lent buffer.
pub mod Buffer
pub mod BufferLaws
