-- What is passed on of `item_wire`, so that the crates above need not list it.
pub use Rattle.item_wire.specs.Changes
pub use Rattle.item_wire.specs.Entries
pub use Rattle.item_wire.specs.Ranges
pub use Rattle.item_wire.specs.Records
pub use Rattle.item_wire.specs.declared.item.Item
