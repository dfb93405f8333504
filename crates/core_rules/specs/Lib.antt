pub mod Reasons
pub mod Faults
pub mod Context
pub mod Questions
pub mod Formers
