use Rattle.std.proofs.Common.{◌≡◌, ◌≤◌, ◌+◌, length}
use Rattle.std.specs.List.{filter}
use Rattle.rt_constrain.specs.Covering.{covers}
use Rattle.rt_constrain.proofs.sharing.covered_among.Given as goal

abbrev pub invariant-loop-route : goal.invariant-loop-route
invariant-loop-route l = record {
  counted : l.count + length (filter (λ e. covers l.asked e.1) l.route-iterator) ≡ length (filter (λ e. covers l.asked e.1) l.routes.entries);
  few : l.count + length l.route-iterator ≤ length l.routes.entries;
}
