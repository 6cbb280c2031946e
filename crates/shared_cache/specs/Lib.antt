pub mod Blocks
pub mod Cache
pub mod CachedBlocks
pub mod View
pub mod inner
pub mod laws
