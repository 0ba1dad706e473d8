pub mod Ids
pub mod Reading
pub mod Parts
pub mod Histories
pub mod Walks
pub mod Terminator
pub mod Routes
pub mod Examples
