pub mod Calls
pub mod Ledger
pub mod Life
pub mod Laws
pub mod Worked
