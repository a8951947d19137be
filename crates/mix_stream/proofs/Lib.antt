mod Bytes
mod Finding
pub mod Rising
mod Taking
mod Moved
mod Opened
mod Drained
mod Turning
pub mod Rows
