pub mod Values
pub mod PlainWalk
pub mod PlainMatches
