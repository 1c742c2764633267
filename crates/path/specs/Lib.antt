pub mod Stem
pub mod Code
