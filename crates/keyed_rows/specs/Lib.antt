pub mod Keyed
pub mod laws
