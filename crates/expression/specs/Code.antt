pub mod Parts
pub mod Factor
pub mod Cycle
pub mod Answers
