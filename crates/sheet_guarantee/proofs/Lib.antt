pub mod Step
pub mod Claim
pub mod Unique
pub mod Ends
pub mod Room
pub mod Filled
pub mod Exactly
