pub mod Encodes
pub mod Chars
pub mod White
pub mod Trim
pub mod Lines
pub mod Search
pub mod Number
