pub mod Errors
pub mod Held
pub mod Steps
pub mod Reading
pub mod Jobs
pub mod Pools
pub mod Weighing
