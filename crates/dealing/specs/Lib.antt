pub mod Operands
pub mod Boxes
pub mod Routes
pub mod Deals
pub mod Refusals
