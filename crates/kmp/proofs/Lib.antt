pub mod Shifts
pub mod Filling
pub mod Walking
mod Examples
