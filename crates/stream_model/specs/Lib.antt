pub mod FileLines
pub mod Devices
pub mod Order
pub mod Refusals
pub mod FileParts
pub mod Plans
pub mod Samples
