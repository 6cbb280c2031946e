pub mod Append
pub mod laws
