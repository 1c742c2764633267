pub mod Found
pub mod Function
pub mod Parameters
pub mod Vector
pub mod Code
