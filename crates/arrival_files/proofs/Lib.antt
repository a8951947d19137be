pub mod Turns
pub mod FilesReceived
