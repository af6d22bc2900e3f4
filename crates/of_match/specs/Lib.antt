pub mod Fields
pub mod Match
pub mod Text
pub mod Key
pub mod PacketKey
pub mod Covers
pub mod laws
