-- The files of definitions, in the order in which they stand on each other: those of `decode` and of `graceful`.
pub mod Decoding
pub mod Reporting
pub mod Before
pub mod Digits
pub mod OneMessage
pub mod Entries
pub mod LogReading
pub mod LogWriting
pub mod Logs
pub mod LogProgress
pub mod LogAnswers
