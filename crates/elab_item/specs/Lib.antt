pub mod Given
pub mod Answers
