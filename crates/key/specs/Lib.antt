pub mod Key
pub mod Code
