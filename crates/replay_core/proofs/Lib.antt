pub mod Reading
pub mod Header
pub mod Sessions
pub mod Playing
pub mod Progress
pub mod Runs
