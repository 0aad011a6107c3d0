pub mod LoopLaws
pub mod TestLaws
pub mod SumLaws
pub mod FillLaws
