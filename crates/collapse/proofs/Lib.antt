pub mod EndingLaws
pub mod StartLaws
pub mod StepLaws
pub mod WatchLaws
pub mod TurnsLaws
