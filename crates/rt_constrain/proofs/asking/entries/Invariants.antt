use Rattle.std.proofs.Common.{◌≡◌, ◌++◌, drop, map}
use Rattle.rt_constrain.specs.Asking.{asked_for}
use Rattle.rt_constrain.proofs.asking.entries.Given as goal

abbrev pub invariant-loop-instance : goal.invariant-loop-instance
invariant-loop-instance l =
    l.asked.items ++ map (asked_for l.asn) (drop l.instance-index l.instances) ≡ map (asked_for l.asn) l.instances
