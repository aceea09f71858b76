use Rattle.std.proofs.Common.{◌≡◌, ◌++◌, drop}
use Rattle.std.specs.List.{filter_map}
use Rattle.rt_constrain.specs.Needed.{reason}
use Rattle.rt_constrain.proofs.needing.reasons.Given as goal

abbrev pub invariant-loop-key : goal.invariant-loop-key
invariant-loop-key l = l.instances.items ++ filter_map reason (drop l.key-index l.keys) ≡ filter_map reason l.keys
