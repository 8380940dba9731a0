pub mod Plains
pub mod Stops
