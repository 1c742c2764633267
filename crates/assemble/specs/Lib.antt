pub mod Message
pub mod Streams
