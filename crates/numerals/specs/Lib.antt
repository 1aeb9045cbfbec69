pub mod Numerals
pub mod Parsed
pub mod DigitLaws
pub mod Reading
pub mod Shortest
pub mod ParsedLaws
pub mod ParsedValues
pub mod Writing
