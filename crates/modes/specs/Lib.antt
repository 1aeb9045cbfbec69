pub mod ModeLaws
pub mod Modes
