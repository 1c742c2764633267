pub mod ExportedStatement
pub mod Rollback
pub mod Examples
