pub mod Names
pub mod Gathering
pub mod Guarding
pub mod Limits
