pub mod Chain
pub mod LogLaws
pub mod EntropyLaws
pub mod AskedLaws
pub mod Cases
