pub mod Counting
pub mod Call
pub mod Statement
