-- The files of definitions, in the order in which they stand on each other.
pub mod Hearing
pub mod Cutting
pub mod Moments
pub mod Wiring
pub mod Wired
pub mod Peering
pub mod Asking
pub mod Delivering
pub mod Starting
pub mod Losing
pub mod Editing
pub mod Connecting
pub mod Breaking
pub mod OneState
pub mod MachineLaws
