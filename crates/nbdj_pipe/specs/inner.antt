pub mod Causes
pub mod Checkpoint
pub mod Export
pub mod Life
pub mod Refusals
pub mod Session
