pub mod Files
pub mod Order
pub mod Readings
pub mod Steps
