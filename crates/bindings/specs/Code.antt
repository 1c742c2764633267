pub mod Table
pub mod Source
pub mod Rows
pub mod Known
