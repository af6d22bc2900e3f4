pub mod Readings
pub mod laws
