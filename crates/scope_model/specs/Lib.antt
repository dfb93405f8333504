pub mod Scoped
pub mod ScopeNames
pub mod Scope
pub mod ScopeFits
pub mod ItemNames
