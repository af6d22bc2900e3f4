pub mod Checksum
pub mod Datagram
pub mod Edits
pub mod Written
pub mod laws
