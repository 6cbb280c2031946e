pub mod Frames
pub mod Lends
pub mod Lists
pub mod Nodes
