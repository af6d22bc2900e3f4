pub mod CountLaws
pub mod ToldLaws
pub mod LinesLaws
