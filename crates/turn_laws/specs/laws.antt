pub mod ChainLaws
pub mod StopLaws
pub mod FaultLaws
pub mod FailedLaws
