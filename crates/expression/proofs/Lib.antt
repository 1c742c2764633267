pub mod Signs
pub mod Atoms
pub mod Reading
pub mod FirstToken
pub mod FactorMeets
pub mod Meaning
