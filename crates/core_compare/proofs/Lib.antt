pub mod Ways
pub mod Reaching
pub mod Heads
pub mod Stacks
pub mod Settling
pub mod Turning
pub mod Comparing
