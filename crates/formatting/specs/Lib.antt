pub mod Ascii
pub mod Buffer
pub mod Laws
