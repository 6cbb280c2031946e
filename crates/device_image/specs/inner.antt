pub mod CheckpointHeader
pub mod Copied
pub mod Free
pub mod Keeps
pub mod Plan
