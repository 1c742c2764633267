pub mod Stored
pub mod Held
