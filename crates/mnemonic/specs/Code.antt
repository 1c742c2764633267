pub mod FirstByte
pub mod Agree
