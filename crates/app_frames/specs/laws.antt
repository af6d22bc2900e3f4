pub mod KindLaws
pub mod ReadingLaws
pub mod BodyLaws
pub mod AppLaws
pub mod HostLaws
