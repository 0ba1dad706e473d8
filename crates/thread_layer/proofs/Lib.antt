pub mod Gathered
pub mod Least
pub mod Standing
pub mod Opens
pub mod Room
