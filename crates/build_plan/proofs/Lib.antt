pub mod Places
pub mod Named
pub mod Taking
pub mod Walking
