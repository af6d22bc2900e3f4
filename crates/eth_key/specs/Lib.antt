pub mod Ethernet
pub mod Ipv4
pub mod PacketFields
pub mod laws
