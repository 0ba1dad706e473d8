pub mod Shown
pub mod Calls
pub mod Table
pub mod Chains
pub mod Room
