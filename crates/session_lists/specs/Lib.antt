pub mod Records
pub mod Stimuli
pub mod Steps
pub mod laws
