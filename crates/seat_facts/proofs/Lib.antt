pub mod Begun
pub mod Lasts
pub mod Onward
pub mod Replying
pub mod Seated
pub mod Spots
pub mod Steps
pub mod Threads
