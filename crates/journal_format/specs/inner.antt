pub mod GroupList
pub mod Scanning
