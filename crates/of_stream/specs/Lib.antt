pub mod Frames
pub mod Front
pub mod Runs
pub mod laws
