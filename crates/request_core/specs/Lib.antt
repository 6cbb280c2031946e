pub mod Outcomes
pub mod Reading
pub mod Serving
pub mod inner
pub mod laws
