pub mod FoldLemmas
pub mod ColumnLemmas
pub mod ReducedLemmas
