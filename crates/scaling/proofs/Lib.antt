pub mod Entries
pub mod Arms
