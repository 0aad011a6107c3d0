pub mod NextLaws
pub mod WordLaws
pub mod CaseLaws
pub mod KeptLaws
pub mod SentenceLaws
