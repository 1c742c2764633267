pub mod Classes
pub mod Allowed
pub mod Tokens
pub mod LongestMatch
pub mod LastEnd
pub mod Examples
