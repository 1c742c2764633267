pub mod Stack
pub mod Storage
pub mod Program
pub mod Effects
pub mod Runs
pub mod Faults
pub mod Alike
pub mod Slots
