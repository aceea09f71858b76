pub mod Names
pub mod Blocks
pub mod Places
pub mod Values
pub mod FirstLemmas
pub mod Addresses
pub mod Lengths
pub mod OneText
mod Cutting
mod Hexadecimal
mod Told
