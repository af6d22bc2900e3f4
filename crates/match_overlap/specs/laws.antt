pub mod ValueLaws
pub mod PrefixLaws
pub mod RelationsLaws
