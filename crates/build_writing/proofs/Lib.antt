pub mod Steps
pub mod Faultless
