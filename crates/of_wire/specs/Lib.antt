pub mod Faults
pub mod Grammar
pub mod Handshake
pub mod Kinds
pub mod Reading
pub mod Spelling
pub mod Stats
pub mod laws
