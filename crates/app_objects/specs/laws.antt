pub mod ResumingLaws
