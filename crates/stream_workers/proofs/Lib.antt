pub mod Stepped
pub mod Holding
pub mod Opening
pub mod Returning
pub mod Reading
pub mod Sending
pub mod Working
