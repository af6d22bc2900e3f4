pub mod CheckpointLaws
pub mod LearnLaws
pub mod KeepNothingLaws
