pub mod Answers
pub mod Outer
pub mod Numbers
