-- The start of checking: specifications fill the name table, or the first complaint among them.
pub mod Here
pub mod Going
