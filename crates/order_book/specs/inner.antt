pub mod Edits
pub mod Order
pub mod Pending
