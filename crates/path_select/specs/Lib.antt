pub mod Selection
pub mod NodeModel
