pub mod Packets
pub mod Reading
pub mod Laws
pub mod Streams
pub mod Moving
