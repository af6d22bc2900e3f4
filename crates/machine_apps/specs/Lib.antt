pub mod Down
pub mod Learn
pub mod Checkpoint
pub mod Clean
pub mod Block
pub mod laws
