pub mod Sheet
pub mod Tables
pub mod Reading
pub mod Lending
