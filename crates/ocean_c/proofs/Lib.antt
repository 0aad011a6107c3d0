pub mod CodeLaws
pub mod WholeLaws
pub mod BoundLaws
pub mod PartLaws
pub mod ReturnedLaws
