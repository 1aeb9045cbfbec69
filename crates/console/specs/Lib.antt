pub mod Sessions
pub mod Lines
