-- The files of definitions, in the order in which they stand on each other.
pub mod Setup
pub mod Session
pub mod Network
pub mod Steps
pub mod Events
pub mod Rounds
pub mod Moments
pub mod Deeds
pub mod OvSync
pub mod TransformModel
pub mod AclCompile
pub mod ConfigCheck
pub mod ChainExpand
