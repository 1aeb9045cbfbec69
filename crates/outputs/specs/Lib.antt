pub mod ControlDifference
pub mod History
pub mod Instruction
pub mod OutputLaws
pub mod Outputs
pub mod Steps
