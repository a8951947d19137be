pub mod Settings
pub mod Words
pub mod Within
pub mod Cutting
pub mod Faults
