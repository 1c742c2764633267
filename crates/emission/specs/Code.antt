pub mod Lines
pub mod Waiting
pub mod Turn
pub mod Emitted
