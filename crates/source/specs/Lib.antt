pub mod Checks
pub mod Fronts
pub mod Texts
