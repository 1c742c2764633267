pub mod Found
pub mod Places
pub mod Cuts
pub mod Trimmed
pub mod Names
pub mod Pieces
pub mod Cursor
pub mod Keys
pub mod Numbers
mod Examples
