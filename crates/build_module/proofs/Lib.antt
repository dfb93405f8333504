pub mod ModuleItems
pub mod OneAnswer
pub mod Printable
pub mod GivenText
pub mod Stuck
pub mod Counted
pub mod Given
