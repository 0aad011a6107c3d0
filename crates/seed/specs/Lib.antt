pub mod Seeds
pub mod Strips
