-- The instructions of the subset: their halfwords, and the laws of encoding and decoding.
pub mod Encoding
pub mod Fields
pub mod EncodingTable
pub mod EncodingLaws
pub mod EncodingBytes
pub mod EncodingByteLaws
