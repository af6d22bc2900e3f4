pub mod Sorting
pub mod Least
pub mod Names
pub mod Items
pub mod Ports
mod Values
mod Cuts
