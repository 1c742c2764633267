pub mod Bench
pub mod Reading
pub mod Assembly
pub mod InRow
