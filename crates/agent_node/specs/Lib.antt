-- The files of definitions, in the order in which they stand on each other.
pub mod Core
pub mod Beginning
pub mod Ends
pub mod Planning
pub mod Applying
pub mod Codes
pub mod NodeCore
pub mod NodeModel
pub mod ItemWire
