pub mod Raised
pub mod Held
pub mod Made
pub mod Owned
pub mod Linked
pub mod Leaving
pub mod First
pub mod Composed
