pub mod Ordered
pub mod Counts
pub mod Answers
pub mod Steps
