pub mod Kinds
pub mod Written
pub mod Code
