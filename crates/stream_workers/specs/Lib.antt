pub mod Calls
pub mod Steps
pub mod Held
pub mod Work
pub mod Opens
