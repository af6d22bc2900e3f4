pub mod Bits
pub mod Writing
