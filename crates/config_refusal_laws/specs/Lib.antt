pub mod Breaks
pub mod Order
pub mod Named
