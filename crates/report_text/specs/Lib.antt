pub mod Notes
pub mod Libraries
pub mod Chains
pub mod Examples
pub mod Setups
