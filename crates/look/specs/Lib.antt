pub mod Goes
pub mod Looked
pub mod Runs
pub mod Told
pub mod Units
