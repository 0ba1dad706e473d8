pub mod Logged
pub mod Samples
