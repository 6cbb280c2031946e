pub mod Asked
pub mod Heads
pub mod Items
pub mod Texts
