pub mod Part
pub mod Scope
pub mod Parameters
pub mod Numbers
pub mod Code
