pub mod Zeros
pub mod Digits
