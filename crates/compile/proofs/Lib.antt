pub mod Assembled
pub mod Composition
pub mod Delivery
pub mod Examples
