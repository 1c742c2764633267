pub mod Registers
pub mod Alike
