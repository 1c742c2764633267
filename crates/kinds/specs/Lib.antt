pub mod Kinds
pub mod Code
