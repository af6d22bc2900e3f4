pub mod RecordLaws
pub mod StimulusLaws
pub mod StepLaws
