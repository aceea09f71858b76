-- The files of definitions, in the order in which they stand on each other.
pub mod Told
pub mod Hearing
pub mod Keeping
pub mod Taking
pub mod Beginning
pub mod First
pub mod NodeModel
