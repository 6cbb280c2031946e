pub mod Contents
pub mod Moments
