pub mod Errors
pub mod Origins
pub mod Kept
pub mod Taking
pub mod Calls
pub mod Files
pub mod Intakes
pub mod Reading
