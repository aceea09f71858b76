pub mod Best
pub mod Choices
pub mod GroupLaws
pub mod GroupsRead
pub mod Kept
pub mod Replies
pub mod Visiting
