pub mod TakeLemmas
pub mod InputLemmas
