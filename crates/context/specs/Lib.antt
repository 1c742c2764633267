pub mod Gate
pub mod Code
