pub mod PieceLaws
pub mod ReadLaws
pub mod FollowLaws
