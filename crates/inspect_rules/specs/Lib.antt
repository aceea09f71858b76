pub mod Causes
pub mod CauseLines
pub mod Explaining
pub mod Deciders
pub mod Idle
pub mod IdleSentences
