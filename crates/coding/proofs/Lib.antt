pub mod Trips
pub mod Halves
pub mod Steps
