pub mod Closed
pub mod FirstSync
