pub mod Found
pub mod Chains
pub mod Places
pub mod Issued
pub mod FirstRead
pub mod Payloads
pub mod Keeping
pub mod Numbering
