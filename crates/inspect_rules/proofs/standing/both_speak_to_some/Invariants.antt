use Rattle.std.proofs.Common.{◌≡◌, drop, map}
use Rattle.std.specs.List.{list_any}
use Rattle.inspect_rules.specs.Idle.{both_speak}
use Rattle.inspect_rules.proofs.standing.both_speak_to_some.Given as goal

abbrev pub invariant-loop-to : goal.invariant-loop-to
invariant-loop-to l = list_any (both_speak l.rule l.other l.from) (map (λ a. a.now) (drop l.to-index l.networks)) ≡ list_any (both_speak l.rule l.other l.from) (map (λ a. a.now) l.networks)
