-- The files of definitions.
pub mod Stepped
pub mod Received
pub mod Labelled
pub mod Chain
pub mod Counts
pub mod Quiet
pub mod NodeModel
