pub mod Steps
pub mod Comparing
pub mod Settling
pub mod Putting
pub mod FormerHeads
