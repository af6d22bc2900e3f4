pub mod Voting
pub mod Lives
pub mod World
pub mod laws
