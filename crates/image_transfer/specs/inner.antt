pub mod Import
pub mod Zeroes
