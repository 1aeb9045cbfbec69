pub mod Bits
pub mod Clock
pub mod RefusalLaws
pub mod Refusals
pub mod Signals
