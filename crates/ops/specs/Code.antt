pub mod Numbered
pub mod Passes
