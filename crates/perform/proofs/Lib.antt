pub mod Needed
pub mod Results
pub mod Laws
