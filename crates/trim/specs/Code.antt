pub mod Trims
pub mod Blank
