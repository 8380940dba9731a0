pub mod Behinds
pub mod Looks
pub mod Nodes
pub mod Numerals
pub mod Parts
