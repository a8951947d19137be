mod WordCounts
pub mod GrowthLemmas
