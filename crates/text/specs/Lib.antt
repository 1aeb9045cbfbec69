pub mod Words
pub mod Hexadecimal
pub mod HexadecimalLaws
pub mod HexadecimalRead
pub mod Arguments
pub mod ArgumentsLaws
