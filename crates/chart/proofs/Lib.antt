pub mod SignLaws
pub mod ChartLaws
