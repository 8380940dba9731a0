pub mod GivesUnits
pub mod Going
pub mod Opens
pub mod Looking
pub mod Running
pub mod Spelt
pub mod TellsFaults
pub mod Standing
