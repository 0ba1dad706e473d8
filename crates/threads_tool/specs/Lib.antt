pub mod Ending
pub mod Exits
pub mod Outcome
pub mod Printed
pub mod Stops
