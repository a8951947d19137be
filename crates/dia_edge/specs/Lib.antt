pub mod Counts
pub mod Shelves
pub mod Sinks
pub mod Disks
pub mod Files
pub mod Plans
pub mod Slots
pub mod Memory
