-- An instruction as text: mnemonic and operands.
pub mod Mnemonic
pub mod MnemonicLaws
pub mod MnemonicCases
