pub mod KnownMore
pub mod Following
pub mod Parts
pub mod Standing
pub mod Stands
