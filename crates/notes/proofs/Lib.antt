pub mod NoteLaws
pub mod BesideLaws
pub mod WatchedLaws
pub mod Cases
pub mod TouchLaws
