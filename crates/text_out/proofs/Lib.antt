pub mod PutLemmas
pub mod ColumnLemmas
