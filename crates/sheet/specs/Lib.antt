pub mod Contents
pub mod Sheet
pub mod Valid
pub mod TotalLaws
pub mod SumLaws
pub mod ExtremeLaws
pub mod ValidLaws
pub mod EnteredLaws
