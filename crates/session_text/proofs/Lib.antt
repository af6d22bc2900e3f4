pub mod Sizes
pub mod Ports
pub mod Cuts
pub mod LineCount
pub mod Sound
pub mod FixedLines
pub mod Drawn
