pub mod DirectionLaws
