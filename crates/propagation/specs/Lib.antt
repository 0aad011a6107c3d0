pub mod Supports
pub mod Lent
