pub mod ModuleAnswers
pub mod Built
pub mod Counts
pub mod Answers
