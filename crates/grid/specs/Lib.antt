pub mod Grid
pub mod Answers
