pub mod Reading
pub mod Lines
pub mod LinesLaws
pub mod ReadingLaws
pub mod Answering
