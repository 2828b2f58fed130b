-- The walker beside the source's run and the image.
pub mod Demand5
pub mod RowTrees
pub mod RowRelation
pub mod RowMoves
pub mod Walks
