pub mod Format
pub mod Opening
pub mod Recovery
pub mod Report
pub mod Steps
pub mod Upgrade
