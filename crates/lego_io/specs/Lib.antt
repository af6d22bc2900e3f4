pub mod Count
pub mod Source
pub mod Sink
pub mod MemSource
pub mod MemSink
pub mod Lines
pub mod laws
