pub mod Codes
pub mod Map
pub mod Runs
pub mod laws
