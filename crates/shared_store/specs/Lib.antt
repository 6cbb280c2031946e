pub mod Answers
pub mod Back
pub mod Keepers
pub mod Logs
pub mod Orders
pub mod Parts
pub mod laws
