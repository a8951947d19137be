pub mod RowLemmas
pub mod SetLemmas
pub mod TakeLemmas
pub mod Thens
