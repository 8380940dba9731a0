pub mod Known
pub mod Two
