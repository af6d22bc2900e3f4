pub mod Machine
pub mod ByEvents
pub mod Resuming
pub mod laws
