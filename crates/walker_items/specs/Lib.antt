-- The things to do between two rows.
pub mod Doing
