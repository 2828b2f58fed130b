-- Resolving the raw rows in place, and judging the names in them.
pub mod ResolvingWalk
