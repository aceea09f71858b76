pub mod Keeping
pub mod Requests
pub mod Saying
