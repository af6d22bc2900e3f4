pub mod RowTests
pub mod ViewPositions
pub mod ProgressPositions
pub mod MessageStoreSteps
pub mod StoreGaps
