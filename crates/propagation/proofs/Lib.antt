pub mod LentLaws
pub mod CountLaws
pub mod VisitLaws
pub mod PropagatorLaws
pub mod WatchingLaws
