pub mod Ahead
pub mod Looks
pub mod laws
