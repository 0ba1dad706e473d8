pub mod Turns
pub mod Text
pub mod Left
pub mod Writing
pub mod Given
pub mod Rows
pub mod Accepted
pub mod Stops
