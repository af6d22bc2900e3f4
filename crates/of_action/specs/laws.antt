pub mod ReadingLaws
pub mod ActionLaws
