pub mod Mnemonics
pub mod Commands
pub mod Terminal
pub mod MnemonicLaws
pub mod CommandLaws
pub mod TerminalLaws
