pub mod TurnCounts
pub mod Counts
pub mod TurnSums
pub mod Fitting
