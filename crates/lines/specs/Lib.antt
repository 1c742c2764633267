pub mod Lines
pub mod Cursor
pub mod Code
