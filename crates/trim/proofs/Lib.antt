pub mod White
pub mod Laws
pub mod Suffix
pub mod Steps
pub mod Blanks
mod Examples
