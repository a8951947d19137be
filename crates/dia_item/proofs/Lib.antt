pub mod Numbers
pub mod Fields
pub mod RowLemmas
pub mod LawLemmas
pub mod TestLemmas
pub mod KeyLemmas
pub mod BufLemmas
pub mod Walking
