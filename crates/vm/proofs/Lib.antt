pub mod Refusals
pub mod Transitions
