pub mod Edges
pub mod Indexed
pub mod Kept
pub mod Lookups
pub mod Once
pub mod Ranges
pub mod Views
