pub mod SpellingLaws
pub mod ReadingLaws
pub mod GrammarLaws
pub mod RewritingLaws
