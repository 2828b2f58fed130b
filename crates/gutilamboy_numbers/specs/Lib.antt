-- Instructions, decodings and states as words.
pub mod Numbers
pub mod NumberLaws
