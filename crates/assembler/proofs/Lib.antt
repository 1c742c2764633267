pub mod Stems
pub mod Outputs
pub mod Bounds
