pub mod Playing
pub mod Replayed
pub mod Seating
