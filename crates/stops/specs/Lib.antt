pub mod First
pub mod Stops
pub mod Entries
