pub mod FieldLaws
pub mod Fields
pub mod Decoding
pub mod RoundTrip
