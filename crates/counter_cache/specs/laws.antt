pub mod FixedLaws
pub mod TotalLaws
