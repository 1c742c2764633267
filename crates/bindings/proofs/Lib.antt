pub mod Tags
pub mod Lookup
