pub mod Errors
pub mod Replayed
pub mod Statuses
pub mod Beginning
pub mod Traffic
pub mod Plays
pub mod Ending
pub mod Given
