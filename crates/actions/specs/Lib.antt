pub mod Printing
pub mod Acting
