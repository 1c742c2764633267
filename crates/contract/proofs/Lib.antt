pub mod Examples
pub mod Conclusion
pub mod Words
pub mod Refusals
pub mod Accepted
pub mod Answers
