pub mod Gathering
pub mod Preparing
pub mod Spending
pub mod Naming
pub mod Working
pub mod Running
