pub mod Reachability
pub mod Outcomes
pub mod ConfigCheck
pub mod ChainExpand
pub mod PolicyRules
pub mod ConfigTypes
