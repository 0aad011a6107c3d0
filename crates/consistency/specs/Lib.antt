pub mod Domains
pub mod Consistent
pub mod Worklist
pub mod Start
pub mod Parts
pub mod Safe
pub mod Forget
pub mod Withdrawn
