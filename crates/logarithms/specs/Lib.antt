pub mod Logs
pub mod Lookups
pub mod Floor
pub mod Entropy
pub mod Asked
