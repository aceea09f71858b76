pub mod Choice
pub mod Form
pub mod Groups
pub mod Spread
pub mod Reading
pub mod GroupDocuments
