pub mod Engine
pub mod Cases
