pub mod Order
pub mod Best
pub mod NodeModel
