pub mod Items
pub mod Spines
pub mod Heads
