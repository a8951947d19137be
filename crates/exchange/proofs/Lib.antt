pub mod Putting
pub mod Counting
pub mod OneRow
pub mod Taking
pub mod Sending
