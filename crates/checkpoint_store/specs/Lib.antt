pub mod Past
pub mod Slots
pub mod Inside
pub mod laws
