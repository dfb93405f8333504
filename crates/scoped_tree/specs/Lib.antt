pub mod Code
pub mod Trees
pub mod Branches
pub mod Items
