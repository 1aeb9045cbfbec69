pub mod Computation
pub mod ComputationLaws
pub mod Setpoints
