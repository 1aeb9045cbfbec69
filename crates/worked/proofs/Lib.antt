pub mod LineFigures
pub mod ModelCalls
pub mod RightFigures
pub mod Worked
