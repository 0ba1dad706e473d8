pub mod Shape
pub mod Links
pub mod Owning
pub mod Passed
pub mod Queues
pub mod Table
pub mod Compact
pub mod Records
