pub mod Links
pub mod PairLists
pub mod Flat
pub mod Adding
pub mod Spreading
pub mod Bounding
pub mod Listed
pub mod Indexed
