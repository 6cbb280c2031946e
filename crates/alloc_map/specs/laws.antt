pub mod Coded
pub mod Spelling
pub mod States
