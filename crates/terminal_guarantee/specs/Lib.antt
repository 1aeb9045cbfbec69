pub mod PlaceValue
pub mod Forms
pub mod Lines
pub mod Visits
pub mod SentBack
