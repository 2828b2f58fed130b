-- What is wrong with a refused source.
pub mod Refusal
pub mod RefusalLaws
pub mod RefusalRoom
