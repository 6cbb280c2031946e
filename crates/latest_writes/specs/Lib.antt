pub mod Touches
pub mod Ranges
pub mod Puts
pub mod Resolved
pub mod inner
pub mod laws
