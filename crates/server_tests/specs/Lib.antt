pub mod Snapshot
pub mod Trusted
