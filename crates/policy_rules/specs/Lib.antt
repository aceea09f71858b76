pub mod Related
pub mod Wanted
pub mod Matching
pub mod Least
pub mod Answering
pub mod Standing
pub mod Taking
