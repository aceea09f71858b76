-- The files of definitions, in the order in which they stand on each other.
pub mod Breaks
pub mod Sends
pub mod Delivery
pub mod FailingState
pub mod Lends
