pub mod Bytes
pub mod Faults
pub mod Files
pub mod Lines
pub mod Memory
pub mod Changes
pub mod Reader
pub mod Adapters
