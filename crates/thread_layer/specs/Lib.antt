pub mod Kept
pub mod Findings
pub mod Room
