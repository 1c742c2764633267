pub mod First
pub mod Code
