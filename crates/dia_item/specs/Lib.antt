pub mod Reading
pub mod Sizes
pub mod KindList
pub mod Fields
pub mod Lent
pub mod Room
pub mod Laws
