pub mod Tables
pub mod Weights
pub mod Fours
pub mod Checks
pub mod Lookup
pub mod Accepted
