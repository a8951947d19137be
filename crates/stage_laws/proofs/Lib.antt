pub mod EndLemmas
pub mod ItemLemmas
pub mod ActionLemmas
pub mod CacheLemmas
pub mod StageLemmas
pub mod NeedLemmas
