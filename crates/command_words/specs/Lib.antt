pub mod Plain
pub mod PlainApp
pub mod Numbers
pub mod Commands
