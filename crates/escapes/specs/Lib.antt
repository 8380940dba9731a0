pub mod Digits
pub mod Escapes
pub mod Places
