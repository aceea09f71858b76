use Rattle.std.proofs.Common.{◌≡◌, drop, find}
use Rattle.ov_types.specs.First.{same_name}
use Rattle.running_nodes.proofs.plans.controller_named.Given as goal

abbrev pub invariant-loop-controller : goal.invariant-loop-controller
invariant-loop-controller l =
    find (λ n. same_name n.name l.name) l.topology.controllers
    ≡ find (λ n. same_name n.name l.name) (drop l.controller-index l.controller-items)
