pub mod Copied
pub mod Counted
pub mod Frame
pub mod Free
pub mod AfterCall
pub mod AfterWrite
pub mod Kept
pub mod Lists
pub mod Puts
pub mod Sole
pub mod Steps
mod Touched
pub mod HeaderReplaced
pub mod Headers
pub mod CheckpointBounds
pub mod Upgraded
pub mod Written
