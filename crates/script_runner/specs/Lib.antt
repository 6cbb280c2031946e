pub mod Life
pub mod inner
