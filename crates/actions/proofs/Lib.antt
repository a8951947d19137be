pub mod Snoc
pub mod Grown
pub mod Roots
pub mod Stops
