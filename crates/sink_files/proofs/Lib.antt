pub mod Lists
pub mod Taking
pub mod Files
pub mod Hits
