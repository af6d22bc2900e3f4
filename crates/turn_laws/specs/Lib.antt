pub mod Chain
pub mod Failed
pub mod laws
