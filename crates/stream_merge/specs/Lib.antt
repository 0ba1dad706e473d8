pub mod Gathered
pub mod Passing
