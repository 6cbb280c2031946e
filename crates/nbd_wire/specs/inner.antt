pub mod State
pub mod Reply
