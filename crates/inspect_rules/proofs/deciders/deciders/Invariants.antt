use Rattle.std.proofs.Common.{◌≡◌, ◌||◌, drop}
use Rattle.std.specs.List.{list_any}
use Rattle.ov_types.specs.declared.packet.RuleNo.{RuleNo}
use Rattle.inspect_rules.specs.Deciders.{decides_from, decides_some, has_rule}
use Rattle.inspect_rules.proofs.deciders.deciders.Given as goal

abbrev pub invariant-loop-from : goal.invariant-loop-from
invariant-loop-from l =
    (n : RuleNo) → (list_any (decides_from l.valid.config n) (drop l.from-index l.networks) || has_rule l.deciders n)
    ≡ decides_some l.valid.config n
