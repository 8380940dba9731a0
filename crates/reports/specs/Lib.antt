pub mod Transcript
pub mod Answers
pub mod Printed
