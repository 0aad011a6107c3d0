pub mod Signs
pub mod Tallies
pub mod Chart
