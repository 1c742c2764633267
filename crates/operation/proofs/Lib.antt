pub mod Trimmed
pub mod PlainLines
pub mod BlankLines
pub mod GeneralLine
