pub mod Tasks
pub mod Order
pub mod Ways
