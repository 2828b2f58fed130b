-- Lines of text: what is written in them, and that numbers can be read back from their digits.
pub mod Text
pub mod LineLaws
pub mod Back
