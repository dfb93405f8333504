pub mod Work
pub mod Ends
pub mod Determined
