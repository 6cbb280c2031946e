pub mod Queue
pub mod Serving
pub mod Submits
