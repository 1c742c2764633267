pub mod Errors
pub mod Line
pub mod Code
