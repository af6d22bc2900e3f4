pub mod Fieldwise
pub mod Relations
pub mod laws
