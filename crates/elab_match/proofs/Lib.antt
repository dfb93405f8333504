pub mod Solving
pub mod Mentioned
pub mod Places
pub mod Lowered
pub mod Finding
