pub mod Lead
pub mod Second
pub mod Laws
pub mod Whole
pub mod Encoding
pub mod Examples
