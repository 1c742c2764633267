pub mod Answer
pub mod Numbers
pub mod Compile
pub mod Delivery
