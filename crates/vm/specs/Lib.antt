pub mod Transition
pub mod Refusals
pub mod Code
