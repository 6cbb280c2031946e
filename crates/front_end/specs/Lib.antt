pub mod Refusals
pub mod Times
