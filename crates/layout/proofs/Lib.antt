pub mod ShapeLaws
pub mod ReadingLaws
pub mod WritingLaws
pub mod TableLaws
pub mod InverseLaws
