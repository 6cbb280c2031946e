pub mod Bench
pub mod Copies
pub mod Life
pub mod Parts
pub mod inner
pub mod laws
