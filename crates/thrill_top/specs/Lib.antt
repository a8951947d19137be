pub mod Errors
pub mod Ends
pub mod Asking
pub mod Promise
