pub mod Machine
pub mod Code
