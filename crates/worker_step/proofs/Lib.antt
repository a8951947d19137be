pub mod Faults
pub mod Following
pub mod Live
pub mod Setting
pub mod Standing
pub mod StepsLeft
