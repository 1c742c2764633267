pub mod White
pub mod Place
