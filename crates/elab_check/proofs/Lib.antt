pub mod Stacked
pub mod Chains
pub mod Formed
pub mod Rewriting
pub mod Told
pub mod Equated
