pub mod Exports
pub mod Modules
pub mod Data
pub mod Passed
pub mod Modulewise
pub mod Resolved
