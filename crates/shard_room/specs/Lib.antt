pub mod Needs
pub mod Room
