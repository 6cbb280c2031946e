pub mod Refusals
pub mod Talk
pub mod Causes
pub mod Pipe
pub mod Life
pub mod Devices
pub mod Plan
pub mod inner
