pub mod Grammar
pub mod Names
