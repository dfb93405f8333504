pub mod ModuleNames
pub mod Words
pub mod Command
pub mod Parser
