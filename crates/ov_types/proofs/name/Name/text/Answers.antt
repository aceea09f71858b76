use Rattle.ov_types.proofs.Names.{name_is_utf8}
use Rattle.ov_types.proofs.name.Name.text.Goals as goal

pub unreachable-requires : goal.unreachable-requires
unreachable-requires c = c.in-Err.ensures.cases.0 (name_is_utf8 _ c.self.invariant.form)
