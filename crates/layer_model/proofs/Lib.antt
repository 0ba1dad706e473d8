pub mod Same
pub mod Issued
pub mod Steps
pub mod LeftOut
