pub mod Dealing
pub mod Spreading
