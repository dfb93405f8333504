pub mod Ends
pub mod Spelled
