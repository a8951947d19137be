mod Deliveries
pub mod Lists
mod Gathers
mod Sendings
mod Openings
