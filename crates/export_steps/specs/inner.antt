pub mod Outcomes
pub mod Serving
pub mod Steps
pub mod Storing
