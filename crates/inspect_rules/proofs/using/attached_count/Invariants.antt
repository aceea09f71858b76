use Rattle.std.proofs.Common.{◌≡◌, ◌≤◌, ◌+◌, drop}
use Rattle.inspect_rules.specs.Idle.{attached_count}
use Rattle.inspect_rules.proofs.using.attached_count.Given as goal

abbrev pub invariant-loop-network : goal.invariant-loop-network
invariant-loop-network l = record {
  count : l.count + attached_count l.policy (drop l.network-index l.networks) ≡ attached_count l.policy l.networks;
  few : l.count ≤ l.network-index;
}
