pub mod Lists
pub mod Flows
pub mod Taking
pub mod Deciding
