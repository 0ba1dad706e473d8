pub mod Entries
pub mod Filters
pub mod Globs
pub mod Variables
