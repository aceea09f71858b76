use Rattle.std.proofs.Common.{◌∙◌}
use Rattle.std.proofs.lemmas.Map.Made.{is_some-lookup}
use Rattle.flow_state.specs.Recent.{same_flow}
use Rattle.flow_state.proofs.table.FlowTable.holds.Goals as goal

pub returns : goal.returns
returns c = rw (← c.self.view_is) (c.contains.ensures ∙ is_some-lookup (same_flow c.args.flow.now) c.self.inside.kept.entries)
