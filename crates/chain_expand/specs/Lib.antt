pub mod Expansion
pub mod Room
pub mod Leading
pub mod Links
pub mod Laws
