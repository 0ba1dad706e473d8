pub mod Named
pub mod Cut
pub mod Sorted
