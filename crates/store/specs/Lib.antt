pub mod Held
pub mod Cuts
pub mod Leaves
