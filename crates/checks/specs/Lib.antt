pub mod Verify
pub mod Numbers
pub mod Code
