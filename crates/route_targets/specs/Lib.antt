pub mod Numbers
pub mod Forwarding
