use Rattle.std.proofs.Common.{◌≡◌, ◌||◌, drop, map}
use Rattle.std.specs.List.{list_any}
use Rattle.ov_types.specs.declared.numbers.InstanceId.{InstanceId}
use Rattle.schedule_script.specs.Kept.{are_in}
use Rattle.schedule_script.specs.Relating.{relates_by}
use Rattle.schedule_script.proofs.relating.relate_each.Given as goal

abbrev pub invariant-loop-other : goal.invariant-loop-other
invariant-loop-other l =
    (a b : InstanceId) → (are_in l.related.keys a b || list_any (relates_by (map (λ p. p.now) l.policies) l.network a b) (drop l.other-index l.others))
    ≡ (are_in l.fn.related.keys a b || list_any (relates_by (map (λ p. p.now) l.policies) l.network a b) l.others)
