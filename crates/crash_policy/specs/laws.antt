pub mod OrderLaws
pub mod BoundLaws
