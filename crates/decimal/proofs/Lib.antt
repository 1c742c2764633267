pub mod Runs
pub mod FromStr
pub mod Laws
pub mod Buffer
pub mod Examples
pub mod Shown
