pub mod Cache
pub mod Inside
pub mod Fixed
pub mod Totals
pub mod laws
