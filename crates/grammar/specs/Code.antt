pub mod Operator
pub mod Lengths
pub mod Texts
pub mod Reads
pub mod Meant
