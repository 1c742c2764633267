pub mod Statement
pub mod Body
pub mod Code
