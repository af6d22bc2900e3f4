pub mod Sent
pub mod Told
pub mod Abreast
pub mod laws
