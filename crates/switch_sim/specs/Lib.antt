pub mod Words
pub mod Sound
pub mod Plan
pub mod Possible
pub mod Readable
pub mod laws
