pub mod Meaning
pub mod Linked
pub mod Claim
