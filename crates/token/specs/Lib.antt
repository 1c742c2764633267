pub mod Token
pub mod Tokens
pub mod Code
