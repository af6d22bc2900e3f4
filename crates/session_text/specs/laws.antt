pub mod LoadingLaws
