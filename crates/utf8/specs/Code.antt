pub mod From
pub mod Windows
