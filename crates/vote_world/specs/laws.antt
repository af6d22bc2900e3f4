pub mod VotingLaws
pub mod LifeLaws
pub mod BackedLaws
pub mod AppLaws
pub mod StepLaws
pub mod WorldLaws
pub mod CopiesLaws
