pub mod Options
pub mod Joins
pub mod Ordered
pub mod FirstOnes
pub mod FileNames
pub mod Limits
