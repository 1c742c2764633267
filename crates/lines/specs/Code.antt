pub mod Visits
pub mod Returns
