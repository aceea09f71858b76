-- What is passed on of `item_wire`, so that the crates above need not list it.
pub use Rattle.item_wire.proofs.ShortRecords
pub use Rattle.item_wire.proofs.ValueWeights
pub use Rattle.item_wire.proofs.Weights
