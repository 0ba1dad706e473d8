pub mod Bounds
pub mod TurnLemmas
pub mod TextLemmas
pub mod WriteLemmas
pub mod AcceptedLemmas
pub mod StopLemmas
