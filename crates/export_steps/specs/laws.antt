pub mod Clean
pub mod Lives
pub mod Orders
