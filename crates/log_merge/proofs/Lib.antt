mod Between
mod Entries
mod Kept
mod Steps
