pub mod Counting
pub mod Logging
pub mod Dealt
pub mod Places
pub mod Fitting
pub mod Readied
