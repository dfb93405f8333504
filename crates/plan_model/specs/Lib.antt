pub mod Reading
pub mod Orders
pub mod Cycles
pub mod Renamed
