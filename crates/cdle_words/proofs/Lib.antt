pub mod Kind
pub mod Turns
pub mod Walks
pub mod Exact
pub mod Digits
