pub mod Contents
pub mod Fraction
pub mod Near
pub mod NearLaws
pub mod Terms
pub mod TermLaws
