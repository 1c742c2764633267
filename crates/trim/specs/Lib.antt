pub mod Trim
pub mod Code
