pub mod Both
pub mod Scrambling
