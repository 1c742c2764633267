pub mod Tree
pub mod Environment
pub mod Grammar
pub mod Parse
pub mod Written
pub mod Code
