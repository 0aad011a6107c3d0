pub mod WeightLaws
pub mod FourLaws
pub mod ListLaws
pub mod AcceptedLaws
pub mod LookupLaws
pub mod Times
pub mod Unique
pub mod Cases
