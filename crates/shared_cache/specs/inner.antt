pub mod Blocks
