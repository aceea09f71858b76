-- What is passed on of `item_wire`, so that the crates above need not list it.
pub use Rattle.item_wire.specs.Inputs
pub use Rattle.item_wire.specs.Records
pub use Rattle.item_wire.specs.declared.event.ItemCause
pub use Rattle.item_wire.specs.declared.event.ItemFrom
pub use Rattle.item_wire.specs.declared.item.Item
