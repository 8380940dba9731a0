pub mod Values
pub mod Runs
pub mod Entries
pub mod Lives
pub mod Played
pub mod Worked
