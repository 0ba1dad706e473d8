pub mod Followed
pub mod Replies
pub mod Replays
pub mod Samples
