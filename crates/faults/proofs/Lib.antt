pub mod SearchLaws
pub mod EndLaws
pub mod SheetLaws
pub mod PlaceLaws
