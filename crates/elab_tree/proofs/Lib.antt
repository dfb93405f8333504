pub mod Filled
pub mod Deeper
pub mod Changes
