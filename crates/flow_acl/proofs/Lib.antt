pub mod Towards
pub mod Least
pub mod Decisions
pub mod Keeping
pub mod Same
