pub mod OrderLaws
pub mod IndexLaws
pub mod MaskedLaws
pub mod TakenLaws
pub mod CountLaws
pub mod ReachLaws
