pub mod OriginLemmas
pub mod KeptLemmas
pub mod StateLemmas
pub mod IntakeLemmas
pub mod Header
pub mod Progress
