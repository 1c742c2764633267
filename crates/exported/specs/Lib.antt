pub mod Exports
pub mod Rollback
