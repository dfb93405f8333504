pub mod Faults
pub mod InOrder
pub mod Counting
pub mod Scoping
pub mod Stuck
pub mod Given
pub mod Printing
pub mod Ends
