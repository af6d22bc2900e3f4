pub mod Linked
pub mod Still
pub mod laws
