pub mod JoinedLaws
pub mod StoryLaws
pub mod NoteLaws
