pub mod Starting
pub mod Cutting
