pub mod Prefix
pub mod Laws
pub mod Blocks
pub mod Examples
