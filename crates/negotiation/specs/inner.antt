pub mod Hearing
pub mod InFlight
pub mod Session
pub mod Streams
pub mod Talk
