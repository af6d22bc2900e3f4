pub mod SentLaws
pub mod ToldLaws
pub mod AbreastLaws
