pub mod Quoted
pub mod Quotes
