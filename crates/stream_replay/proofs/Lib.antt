mod Answering
mod Composed
pub mod Playing
pub mod PlayingLists
pub mod Seating
mod Sections
