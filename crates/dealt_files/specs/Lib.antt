pub mod Counted
pub mod Gathered
