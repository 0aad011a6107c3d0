pub mod Places
pub mod Sentences
pub mod Arguments
pub mod Files
