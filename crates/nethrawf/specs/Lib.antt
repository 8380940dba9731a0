pub mod Numbers
pub mod Lives
pub mod Exports
