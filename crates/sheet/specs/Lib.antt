pub mod Called
pub mod Storable
pub mod Result
