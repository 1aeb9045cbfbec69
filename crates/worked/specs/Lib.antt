pub mod FallBackFigures
pub mod Figures
pub mod LineFigures
pub mod ModelCalls
pub mod RightFigures
