pub mod Layout
pub mod Map
pub mod Writes
pub mod laws
