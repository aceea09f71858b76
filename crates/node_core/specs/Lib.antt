-- The files of definitions, in the order in which they stand on each other.
pub mod Resting
pub mod Plans
pub mod Passing
pub mod Begun
pub mod Keeping
pub mod Naming
pub mod Answers
pub mod Whole
pub mod Told
pub mod Hearing
pub mod Left
pub mod Beginning
pub mod Taking
pub mod NodeModel
pub mod OvLink
pub mod ItemWire
