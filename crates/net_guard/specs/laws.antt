pub mod BitLaws
pub mod WalkLaws
pub mod GraphLaws
pub mod LeadingLaws
pub mod FaceLaws
