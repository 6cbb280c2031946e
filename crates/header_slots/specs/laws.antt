pub mod Frame
pub mod Sole
