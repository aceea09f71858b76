use Rattle.std.proofs.Common.{◌≡◌, ◌≤◌, length, take}
use Rattle.config_node.proofs.changing.shared_front.Given as goal

abbrev pub invariant-loop-port : goal.invariant-loop-port
invariant-loop-port l = record {
  count : l.shared ≡ l.port-index;
  within : l.shared ≤ length l.now;
  same : take l.shared l.before ≡ take l.shared l.now;
}
