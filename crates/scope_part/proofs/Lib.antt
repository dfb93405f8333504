pub mod Bounds
pub mod FirstUses
pub mod Scoping
pub mod Branches
pub mod Indexed
