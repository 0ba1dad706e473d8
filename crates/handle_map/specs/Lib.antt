pub mod Pairs
pub mod Chains
pub mod Spans
pub mod Bounds
pub mod KeptPairs
pub mod Index
