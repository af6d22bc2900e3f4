pub mod ChoiceLaws
pub mod FieldLaws
pub mod LayoutLaws
