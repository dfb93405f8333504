pub mod Changes
pub mod Words
pub mod Lines
pub mod Reports
