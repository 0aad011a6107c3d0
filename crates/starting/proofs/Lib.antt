pub mod CheckLaws
pub mod OutcomeLaws
pub mod PropagateLaws
pub mod GivenLaws
pub mod SettleLaws
pub mod Cases
