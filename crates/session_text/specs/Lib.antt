pub mod TextGives
pub mod SessionView
pub mod Loading
pub mod laws
