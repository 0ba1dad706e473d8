pub mod Merges
pub mod Planned
pub mod Samples
