pub mod Becoming
pub mod Chains
pub mod Found
pub mod Kept
pub mod Once
pub mod ConfigCheck
pub mod PolicyRules
