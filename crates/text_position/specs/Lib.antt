-- Line and column of a place, and its line as it is shown.
pub mod Position
pub mod PositionLaws
