pub mod Exchanged
pub mod Lists
pub mod Onward
pub mod Starting
