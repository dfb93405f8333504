pub mod Forms
pub mod Rewriting
pub mod Answers
pub mod Contexts
pub mod Items
