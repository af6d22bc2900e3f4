pub mod KeptLaws
pub mod InStepLaws
