pub mod Ahead
pub mod Numbered
