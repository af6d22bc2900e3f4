pub mod Known
pub mod Kept
pub mod InStep
pub mod Inside
pub mod laws
