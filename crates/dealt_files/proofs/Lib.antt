pub mod Totals
pub mod Joining
pub mod Faults
