pub mod Lasting
pub mod Opens
pub mod Counting
pub mod Beginning
pub mod Returning
pub mod Replayed
