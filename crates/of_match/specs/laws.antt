pub mod FieldsLaws
pub mod MatchLaws
pub mod KeyLaws
pub mod CoversLaws
