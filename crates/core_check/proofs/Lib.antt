pub mod Found
pub mod Placed
pub mod Lists
pub mod Standing
pub mod Verdicts
