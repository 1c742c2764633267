pub mod Skips
pub mod Scan
pub mod Cursor
pub mod Stack
pub mod Without
