pub mod Stored
pub mod Tables
pub mod Sources
pub mod Simulation
pub mod Loops
pub mod ParameterSteps
