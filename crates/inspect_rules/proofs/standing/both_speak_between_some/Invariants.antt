use Rattle.std.proofs.Common.{◌≡◌, drop, map}
use Rattle.std.specs.List.{list_any}
use Rattle.inspect_rules.specs.Idle.{both_speak}
use Rattle.inspect_rules.proofs.standing.both_speak_between_some.Given as goal

abbrev pub invariant-loop-from : goal.invariant-loop-from
invariant-loop-from l =
    list_any (λ a. list_any (both_speak l.rule l.other a) (map (λ b. b.now) l.others)) (map (λ a. a.now) (drop l.from-index l.networks))
    ≡ list_any (λ a. list_any (both_speak l.rule l.other a) (map (λ b. b.now) l.others)) (map (λ a. a.now) l.networks)
