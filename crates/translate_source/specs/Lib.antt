-- The public translation: what it answers and writes.
pub mod Translate
pub mod TranslationRoom
pub mod Filled
