pub mod SeenLaws
pub mod StateLaws
pub mod LinkLaws
pub mod LinkKeptLaws
pub mod CallLaws
pub mod InOrderLaws
pub mod QuiescenceLaws
pub mod StimuliLaws
