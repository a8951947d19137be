pub mod Mixes
pub mod Delivery
pub mod Steps
pub mod Lanes
pub mod Sending
pub mod Receiving
pub mod Settling
pub mod Mails
