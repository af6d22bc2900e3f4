pub mod FrameLaws
pub mod ReadingLaws
pub mod CallLaws
pub mod AtOnceLaws
