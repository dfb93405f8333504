pub mod Work
pub mod Run
