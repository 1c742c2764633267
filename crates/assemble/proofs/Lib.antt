pub mod Messages
pub mod Lengths
pub mod WordsLine
pub mod Streams
