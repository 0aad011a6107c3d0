pub mod GridLaws
pub mod Unique
pub mod Cases
