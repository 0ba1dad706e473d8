pub mod Table
pub mod Numbers
pub mod CodeNames
pub mod Tests
pub mod Effects
pub mod Facts
pub mod Handles
pub mod Calls
