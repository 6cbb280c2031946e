pub mod Puts
pub mod Ranges
