pub mod Laws
pub mod Cursor
pub mod Written
pub mod Examples
pub mod LineAt
