pub mod Exporting
pub mod ItemScope
pub mod ModuleScope
pub mod Passing
