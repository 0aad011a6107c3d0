pub mod PageLaws
pub mod NumberLaws
pub mod LineLaws
