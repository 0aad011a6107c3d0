pub mod RankLaws
pub mod OrderLaws
pub mod BeatLaws
pub mod NumberLaws
pub mod ListLaws
