-- The translation rules: a tree's instructions, and their bytes.
pub mod InstructionBytes
pub mod Constant
pub mod Blocks
pub mod ImageCode
pub mod CodeLaws
pub mod Bits
pub mod TokenCount
pub mod Encodable
pub mod ConstantCases
pub mod Worked
pub mod Sizes
