pub mod Coded
pub mod Parts
pub mod Returned
