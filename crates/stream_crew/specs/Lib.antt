pub mod Needs
pub mod Crews
pub mod Dealing
pub mod Making
