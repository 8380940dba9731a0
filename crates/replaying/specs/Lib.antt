pub mod Calls
pub mod Words
