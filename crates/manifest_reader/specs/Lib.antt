pub mod Keys
pub mod Texts
pub mod Rows
pub mod Values
pub mod Faults
pub mod Contents
pub mod Reading
