pub mod Story
pub mod laws
