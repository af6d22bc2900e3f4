pub mod Draws
pub mod Turns
pub mod Rounds
pub mod Sessions
pub mod Summary
pub mod laws
