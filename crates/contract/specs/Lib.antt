pub mod Assembled
pub mod Output
pub mod Code
