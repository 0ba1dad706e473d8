pub mod GlobLemmas
pub mod StarLemmas
pub mod VariableLemmas
