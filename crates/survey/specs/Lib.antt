pub mod Tally
pub mod Lines
