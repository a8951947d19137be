pub mod Taking
pub mod Crossing
pub mod Ends
pub mod Sent
pub mod Senders
pub mod Mailed
pub mod Refused
pub mod Linked
