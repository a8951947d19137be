pub mod Taking
pub mod Inputs
