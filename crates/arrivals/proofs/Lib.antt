mod Answered
mod Totals
mod FirstRows
mod ReceivedRows
mod OnEach
mod Turns
pub mod Crossing
pub mod Sent
