pub mod HeldLaws
pub mod ReadLaws
pub mod TakenLaws
pub mod RunLaws
pub mod KeptLaws
pub mod AcceptLaws
