pub mod Entries
pub mod Slots
pub mod Views
