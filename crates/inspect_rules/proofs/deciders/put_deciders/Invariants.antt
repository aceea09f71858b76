use Rattle.std.proofs.Common.{◌≡◌, ◌||◌, [], take, drop}
use Rattle.ov_types.specs.declared.packet.RuleNo.{RuleNo}
use Rattle.inspect_rules.specs.Deciders.{claims_decide, has_rule}
use Rattle.inspect_rules.proofs.deciders.put_deciders.Given as goal

abbrev pub invariant-loop-index : goal.invariant-loop-index
invariant-loop-index l =
    (n : RuleNo) → (claims_decide n (take l.index l.claims) (drop l.index l.claims) || has_rule l.deciders n)
    ≡ (claims_decide n [] l.claims || has_rule l.fn.deciders n)
