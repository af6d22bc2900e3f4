pub mod Kinds
pub mod Reading
pub mod Bodies
pub mod Spelling
pub mod Frames
pub mod laws
