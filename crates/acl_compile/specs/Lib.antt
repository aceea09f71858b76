pub mod Oriented
pub mod Bounds
pub mod Laws
pub mod ConfigCheck
pub mod ChainExpand
pub mod PolicyRules
pub mod ConfigTypes
