pub mod Import
pub mod inner
