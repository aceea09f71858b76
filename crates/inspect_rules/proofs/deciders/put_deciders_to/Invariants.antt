use Rattle.std.proofs.Common.{◌≡◌, ◌||◌, drop}
use Rattle.std.specs.List.{list_any}
use Rattle.ov_types.specs.declared.packet.RuleNo.{RuleNo}
use Rattle.inspect_rules.specs.Deciders.{decides_between, has_rule}
use Rattle.inspect_rules.proofs.deciders.put_deciders_to.Given as goal

abbrev pub invariant-loop-to : goal.invariant-loop-to
invariant-loop-to l =
    (n : RuleNo) → (list_any (decides_between l.from.0 n l.from.1) (drop l.to-index l.others) || has_rule l.deciders n)
    ≡ (list_any (decides_between l.from.0 n l.from.1) l.others || has_rule l.fn.deciders n)
