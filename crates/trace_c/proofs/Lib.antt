pub mod GoingLaws
