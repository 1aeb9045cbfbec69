pub mod LocalSetpoint
pub mod LocalSetpointLaws
