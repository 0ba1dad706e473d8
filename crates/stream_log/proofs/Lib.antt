mod ClockMoves
pub mod Laws
mod LogMoves
mod Reading
mod Rest
