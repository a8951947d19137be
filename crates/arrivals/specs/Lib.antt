pub mod Boxes
pub mod Steps
pub mod Receives
pub mod ReceiveLaws
pub mod Phases
pub mod Begun
