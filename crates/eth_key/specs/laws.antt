pub mod Ipv4Laws
