pub mod Change
pub mod Header
pub mod Number
pub mod Slots
pub mod inner
pub mod laws
