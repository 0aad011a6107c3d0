pub mod SeedLaws
pub mod StripLaws
