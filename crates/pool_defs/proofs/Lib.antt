pub mod Blocks
pub mod Steps
pub mod Valid
pub mod Apart
pub mod Fit
pub mod Lengths
