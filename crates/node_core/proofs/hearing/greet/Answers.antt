use Rattle.std.proofs.Common.{refl}
use Rattle.node_core.proofs.Fitting.{without_lists}
use Rattle.node_core.proofs.hearing.greet.Goals as goal

pub item_octets-requires : goal.item_octets-requires
item_octets-requires c = without_lists _ c.text-text.ensures.form refl
