pub mod Numbers
pub mod Call
pub mod Run
pub mod Lent
pub mod Code
