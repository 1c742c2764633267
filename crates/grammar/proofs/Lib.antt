pub mod Steps
pub mod Grammar
pub mod Written
pub mod Examples
