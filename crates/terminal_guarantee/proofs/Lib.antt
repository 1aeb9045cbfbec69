pub mod PlaceValue
pub mod Forms
pub mod Meaning
pub mod Lines
pub mod Visits
pub mod Existence
pub mod Unchanged
pub mod SentBack
