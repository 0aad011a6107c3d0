pub mod Propagate
pub mod Given
