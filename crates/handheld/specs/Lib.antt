pub mod Plant
pub mod PlantLaws
pub mod Sessions
pub mod SessionLaws
pub mod Answers
pub mod AnswerLaws
pub mod LongLines
