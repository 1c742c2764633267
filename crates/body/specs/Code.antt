pub mod Places
pub mod Checked
pub mod LastReturn
