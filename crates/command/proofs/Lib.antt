pub mod Unique
pub mod ArgumentLaws
pub mod SentenceLaws
