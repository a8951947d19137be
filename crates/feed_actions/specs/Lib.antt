pub mod Sinks
pub mod Sums
pub mod Counting
pub mod Adding
pub mod Acting
