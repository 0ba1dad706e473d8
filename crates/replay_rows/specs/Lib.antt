pub mod Traces
pub mod Setups
