pub mod Observer
pub mod Choice
pub mod Cache
pub mod Asked
