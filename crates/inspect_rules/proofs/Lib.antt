mod Kept
mod Failing
mod Asked
mod Nowhere
pub mod Explained
pub mod Deciding
pub mod Unneeded
pub mod Claimants
pub mod Attaching
