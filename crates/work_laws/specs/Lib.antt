pub mod Needed
pub mod Ordered
