pub mod Notes
pub mod Blocks
pub mod Beside
pub mod Watching
pub mod Sizes
