pub mod OrderLemmas
pub mod NeededLemmas
