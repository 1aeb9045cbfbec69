pub mod Writers
pub mod Commands
