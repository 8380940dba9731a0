pub mod Looks
pub mod Distincts
