pub mod ColourLaws
pub mod PictureLaws
