pub mod Layouts
pub mod Flows
pub mod Reading
pub mod Parts
pub mod laws
