pub mod ModeWords
pub mod ModeLaws
pub mod Answers
pub mod Appended
pub mod SheetText
