use Rattle.std.proofs.Common.{◌≡◌, drop}
use Rattle.std.specs.List.{list_any}
use Rattle.rt_constrain.specs.Covering.{agree}
use Rattle.rt_constrain.proofs.covering.has_target_from.Given as goal

abbrev pub invariant-loop-target : goal.invariant-loop-target
invariant-loop-target l =
    list_any (λ t. agree l.asked.length t l.asked.target) (drop l.target-index l.targets)
    ≡ list_any (λ t. agree l.asked.length t l.asked.target) l.targets
