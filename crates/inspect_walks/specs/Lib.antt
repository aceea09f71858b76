pub mod Ordered
pub mod Walks
pub mod Following
pub mod Told
pub mod Lines
pub mod Sizes
pub mod Taking
pub mod TransformModel
