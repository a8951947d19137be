pub mod Sinks
pub mod Numbered
