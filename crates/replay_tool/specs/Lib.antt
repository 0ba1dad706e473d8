pub mod Said
pub mod Showing
pub mod Output
pub mod Statuses
pub mod Outcome
pub mod Ends
pub mod Exits
pub mod Environment
