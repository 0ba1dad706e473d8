pub mod TableLemmas
pub mod CutLemmas
pub mod NamedLemmas
pub mod OnThese
pub mod PlaceLemmas
pub mod NumberLemmas
pub mod DealtLemmas
pub mod AddedLemmas
