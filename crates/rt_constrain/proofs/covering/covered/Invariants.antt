use Rattle.std.proofs.Common.{◌≡◌, ◌++◌}
use Rattle.std.specs.List.{filter}
use Rattle.rt_constrain.specs.Covering.{covers}
use Rattle.rt_constrain.proofs.covering.covered.Given as goal

abbrev pub invariant-loop-key : goal.invariant-loop-key
invariant-loop-key l =
    l.covered.items ++ filter (λ e. covers l.asked e.1) l.key-iterator ≡ filter (λ e. covers l.asked e.1) l.routes.entries
