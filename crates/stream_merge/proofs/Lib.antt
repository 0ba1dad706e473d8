pub mod Counts
pub mod Passed
