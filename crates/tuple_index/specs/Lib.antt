pub mod Groups
pub mod Masked
pub mod Reach
pub mod Taken
pub mod Going
pub mod laws
