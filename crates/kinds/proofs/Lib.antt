pub mod ByKind
pub mod Folds
