pub mod Reports
pub mod Histories
pub mod Calls
pub mod Quiet
pub mod Room
