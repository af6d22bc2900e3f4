pub mod Fields
pub mod Layout
pub mod Membership
pub mod Numerals
pub mod RawBytes
pub mod laws
