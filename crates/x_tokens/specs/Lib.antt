-- The tokens of a source: the refusals' numbers, what stands at the front of a byte string, the token list and its laws.
pub mod Refusals
pub mod Lexemes
pub mod TokenList
pub mod Split
pub mod LexemeLaws
pub mod TokenLaws
pub mod SourceLaws
pub mod SplitLaws
