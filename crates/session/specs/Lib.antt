pub mod Views
pub mod Replies
pub mod Calls
pub mod Literals
pub mod Scans
pub mod Performs
