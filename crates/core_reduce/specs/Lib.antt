pub mod Sides
pub mod Code
pub mod Checked
pub mod Values
pub mod Heads
