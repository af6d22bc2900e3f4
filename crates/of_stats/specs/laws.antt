pub mod ReadingLaws
pub mod FlowLaws
pub mod LayoutLaws
pub mod PartLaws
