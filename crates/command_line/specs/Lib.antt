pub mod Commands
pub mod Line
pub mod Seconds
pub mod Size
pub mod inner
