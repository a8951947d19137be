pub mod Limits
pub mod Dealing
pub mod Deals
pub mod Serving
