pub mod Apply
pub mod Code
