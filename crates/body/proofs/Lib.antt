pub mod Places
pub mod Expressions
pub mod Lines
pub mod BodyLines
pub mod BodyLoop
pub mod LastReturn
