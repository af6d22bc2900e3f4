pub mod ChecksumLaws
pub mod DatagramLaws
pub mod FieldLaws
pub mod OutputLaws
pub mod TagLaws
pub mod VerifyLaws
pub mod WrittenLaws
