pub mod Written
pub mod PrintedLines
pub mod Reported
mod Examples
