use Rattle.std.proofs.Common.{◌≡◌, drop, map, find}
use Rattle.config_check.specs.Rules.{share_addresses}
use Rattle.config_check.proofs.overlaps.sharing_with.Given as goal

abbrev pub invariant-loop-other : goal.invariant-loop-other
invariant-loop-other l = find (share_addresses l.network) (map (λ n. n.now) (drop l.other-index l.others)) ≡ find (share_addresses l.network) (map (λ n. n.now) l.others)
