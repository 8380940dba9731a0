pub mod Cutting
pub mod Putting
pub mod Cells
