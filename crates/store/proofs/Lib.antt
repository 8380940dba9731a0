pub mod Parts
pub mod Narrows
pub mod Puts
