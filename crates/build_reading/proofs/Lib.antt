pub mod Lists
pub mod Progress
pub mod Closed
pub mod OneReading
