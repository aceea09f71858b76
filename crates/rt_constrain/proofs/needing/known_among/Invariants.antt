use Rattle.std.proofs.Common.{◌≡◌, ◌++◌, drop}
use Rattle.std.specs.List.{filter}
use Rattle.node_model.specs.Uses.{is_known}
use Rattle.rt_constrain.proofs.needing.known_among.Given as goal

abbrev pub invariant-loop-instance : goal.invariant-loop-instance
invariant-loop-instance l =
    l.known.items ++ filter (is_known l.tables.feed) (drop l.instance-index l.instances) ≡ filter (is_known l.tables.feed) l.instances
