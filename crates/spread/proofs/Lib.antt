pub mod BlocksSent
pub mod Carried
pub mod LineSpread
