pub mod Heads
pub mod Requests
pub mod Streams
pub mod Bytes
