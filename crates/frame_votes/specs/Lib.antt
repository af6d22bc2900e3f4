pub mod Votes
pub mod laws
