pub mod Export
pub mod Field
pub mod Handshake
pub mod Head
pub mod Options
pub mod Reply
pub mod laws
